pub use Rattle.hart_values.specs.address.DeviceNumbers
pub use Rattle.hart_values.specs.address.AddressBytes
pub mod wire
pub mod heard
pub mod scan
pub mod private
