pub mod Admission
pub mod Lists
pub mod Printed
pub mod Rows
