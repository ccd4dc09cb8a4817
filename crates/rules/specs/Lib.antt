-- The language of the conversion's rules (`Rule`), the numbers of the refusals (`Numbers`), what a refused object is refused by (`Refusal`), how the values that a rule takes divide among its
-- searches (`Ledger`), the limit of its searches (`Limited`), and what holds of each element of a list (`Each`, `Laws`). What holds of every rule is in proofs/.
pub mod Rule
pub mod Numbers
pub mod Coded
pub mod Refusal
pub mod Ledger
pub mod Limited
pub mod Each
pub mod Laws
