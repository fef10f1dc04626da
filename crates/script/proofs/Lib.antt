mod Places
mod Standing
mod Wrapped
