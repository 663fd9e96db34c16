-- Laws of a line that can be added: what its checks say of it, and the label box that is kept with the sheet.
pub mod Laws
pub mod Around
