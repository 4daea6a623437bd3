pub mod UnitRows
