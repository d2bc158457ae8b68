pub mod Known
mod Laws
mod Zero
