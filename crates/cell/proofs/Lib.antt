pub mod Laws
mod Cases
