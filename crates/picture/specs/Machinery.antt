-- No rules: what the code hands on of the addresses before they are put beside their reasons. No promise of a call names them.
pub mod Spots
