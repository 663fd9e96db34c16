-- The laws of what gathering passes over.
pub mod Laws
