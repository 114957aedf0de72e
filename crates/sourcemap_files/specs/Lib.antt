pub mod Contents
pub mod Sections
