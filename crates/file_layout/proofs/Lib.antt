mod Rounding
mod Padding
