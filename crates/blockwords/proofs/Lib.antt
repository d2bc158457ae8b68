mod Laws
mod Room
