mod Laning
