-- The definition of what gathering passes over. Definitions only.
pub mod PassedOver
