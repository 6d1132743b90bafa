mod Swept
mod Missed
