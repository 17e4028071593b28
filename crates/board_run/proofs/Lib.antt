-- Laws that belong to no one function.
mod Running
mod Sizes
mod Room
