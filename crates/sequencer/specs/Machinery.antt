-- No rules: what the private functions hand on where a run of ticks is worked fast. No promise of a call names them.
pub mod Parts
pub mod Skip
