-- The laws of the row question and the text view.
pub mod Laws
