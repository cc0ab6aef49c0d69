mod ListPlaces
mod StackNumbers
mod MoreStacks
