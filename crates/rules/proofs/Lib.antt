-- What holds of every rule (`Laws`).
pub mod Laws
