mod Cover
mod Accesses
