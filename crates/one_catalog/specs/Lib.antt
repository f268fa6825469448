pub mod Catalogs
