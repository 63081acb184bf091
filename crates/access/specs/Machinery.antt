-- No rules: what the code hands on of a tick's reads. No promise of a call names it.
pub mod Noted
