pub mod Views
pub mod Looking
