mod Contexts
mod Starts
