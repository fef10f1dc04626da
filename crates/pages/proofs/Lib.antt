mod Stepped
mod Replying
