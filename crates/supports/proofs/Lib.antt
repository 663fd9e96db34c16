-- Laws of the labelled places as a list, of the four kept supports, of the fit on them, and of four residuals.
pub mod Listing
pub mod Nearest
pub mod Outward
pub mod Fitted
pub mod Residuals
