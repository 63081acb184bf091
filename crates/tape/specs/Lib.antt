pub mod Dump
pub mod Machinery
