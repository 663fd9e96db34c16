-- What a call of any of the three passes answers and leaves. Definitions only.
pub mod Call
