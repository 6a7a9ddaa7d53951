-- Addresses.
pub mod DeviceNumbers
pub mod AddressBytes
