mod Words
mod Amounts
