-- What a program prints for an input (`Printed`), and with which buffers and allowance (`Limits`).
pub mod Limits
pub mod Printed
