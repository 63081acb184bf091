-- The number of a mode tells its three bits. Assumes nothing.
use Prim.Native.Nat.{ℕ, ◌+◌, ◌%◌}
use mathlib.Core.Path.{◌≡◌, refl, sym, ap, ◌∙◌}
use mathlib.Core.Bool.{Bool, true, false, cond}
use lib.Dec.{eqb, leb}
use Rattle.registers.specs.Control.{ECM, BMM, MCM, mode_number}

abbrev number : Bool → Bool → Bool → ℕ
number e b m = cond e 4 0 + cond b 2 0 + cond m 1 0

told : (e b m : Bool) → (leb 4 (number e b m) ≡ e) × (leb 2 (number e b m % 4) ≡ b) × (eqb (number e b m % 2) 1 ≡ m)
told true true true = (refl, refl, refl)
told true true false = (refl, refl, refl)
told true false true = (refl, refl, refl)
told true false false = (refl, refl, refl)
told false true true = (refl, refl, refl)
told false true false = (refl, refl, refl)
told false false true = (refl, refl, refl)
told false false false = (refl, refl, refl)

-- the mode bits of two pairs of control registers
pub record SameBits (a x b y : ℕ) : Type 0 where
  pub ecm : ECM a ≡ ECM b
  pub bmm : BMM a ≡ BMM b
  pub mcm : MCM x ≡ MCM y

pub number_bits : (a x b y : ℕ) → mode_number a x ≡ mode_number b y → SameBits a x b y
unfolding mode_number
number_bits a x b y e =
    let p = told (ECM a) (BMM a) (MCM x) in
    let q = told (ECM b) (BMM b) (MCM y) in
    record {
      ecm = sym p.0 ∙ ap (leb 4) e ∙ q.0;
      bmm = sym p.1 ∙ ap (λ (n : ℕ). leb 2 (n % 4)) e ∙ q.1;
      mcm = sym p.2 ∙ ap (λ (n : ℕ). eqb (n % 2) 1) e ∙ q.2;
    }

pub bits_number : (a x b y : ℕ) → SameBits a x b y → mode_number a x ≡ mode_number b y
unfolding mode_number
bits_number a x b y s = rw (s.ecm, s.bmm, s.mcm)
