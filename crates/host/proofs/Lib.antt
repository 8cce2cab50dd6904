mod Giving
mod Playing
mod Steady
mod Delivering
mod Telling
