pub mod Fabric
pub mod Parts
pub mod Lists
pub mod Vacancy
