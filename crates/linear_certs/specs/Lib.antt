pub mod Certificate
pub mod Sum
