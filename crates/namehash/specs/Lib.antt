pub mod Rjenkins
