mod Closing
mod Walking
mod Printing
mod Once
mod Again
