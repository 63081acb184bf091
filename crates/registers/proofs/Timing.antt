-- Which writes reach a timing register and which reads show a picture register; no other does (01, Timing side and picture side).
-- Assumes nothing.
use Prim.Native.Nat.{ℕ, ◌%◌, ◌<◌}
use mathlib.Core.Path.{◌≡◌, refl, sym, ap, ◌∙◌}
use mathlib.Core.Bool.{Bool, true, false, not, ◌&&◌, ◌||◌, cond, false≢true}
use mathlib.Core.List.{[], ◌∷◌}
use native.Mathlib.Nat.{mod-lt}
use native.Mathlib.Omega.{arith}
use lib.Dec.{eqb, ltb}
use borrow.Author.Tests.{eqb-true, ltb-true, ltb-false, le-leb, lt-leb}
use Rattle.laws.proofs.Below.{same_test}
use Rattle.registers.specs.declared.Registers.{Registers}
use Rattle.registers.specs.declared.Irq.{Irq}
use Rattle.registers.specs.declared.Controls.{Controls}
use Rattle.registers.specs.Control.{DEN, RSEL, YSCROLL, CSEL, timed}
use Rattle.registers.specs.Registers.{one_of, between, latch, written}
use Rattle.registers.specs.Read.{read_of, control_at}
use Rattle.registers.specs.Irq.{irq_written, cleared, enabled}

-- two choices by one test, alike where it holds and where it does not
choices : {A : Type 0} (t : Bool) {x y m n : A} → (t ≡ true → x ≡ y) → (t ≡ false → m ≡ n) → cond t x m ≡ cond t y n
choices true f g = f refl
choices false f g = g refl

-- the writes that a timing register takes: the eight Y, the compare line, enable, and the two of the interrupt
abbrev pub takes : ℕ → Bool
takes reg = (ltb reg 0x10 && eqb (reg % 2) 1) || one_of reg (0x12 ∷ 0x15 ∷ 0x19 ∷ 0x1A ∷ [])

-- the latches among them
abbrev timing : ℕ → Bool
timing t = one_of t (0x01 ∷ 0x12 ∷ 0x15 ∷ [])

-- of the 64 numbers, no other has one of these latches
held : (reg : ℕ) → reg < 64 → (timing (latch reg) && not (takes reg)) ≡ false
unfolding latch
held reg h = same_test (λ k. timing (latch k) && not (takes k)) (λ k. false) 64 tt reg h

only : (t u : Bool) → (t && not u) ≡ false → t ≡ true → u ≡ true
only t true e f = refl
only true false e f = sym e
only false false e f = f

-- a latch that is one of these is reached by such a write alone
reached : (addr n : ℕ) → timing n ≡ true → eqb (latch (addr % 64)) n ≡ true → takes (addr % 64) ≡ true
reached addr n e f =
    let at : latch (addr % 64) ≡ n = eqb-true (latch (addr % 64)) n f in
    only (timing (latch (addr % 64))) (takes (addr % 64)) (held (addr % 64) (mod-lt addr (omega arith))) (rw at e)

-- what two writes of one address leave in the timing registers, if they bring the same where one takes it
module _ (g k : Registers) (addr v w : ℕ) (same : takes (addr % 64) ≡ true → v ≡ w) where
  pub written_my : g.my ≡ k.my → (written g addr v).my ≡ (written k addr w).my
  unfolding written
  written_my e = choices (eqb (latch (addr % 64)) 0x01) (λ t. let q : v ≡ w = same (reached addr 0x01 refl t) in cc) (λ t. e)

  pub written_enable : g.enable ≡ k.enable → (written g addr v).enable ≡ (written k addr w).enable
  unfolding written
  written_enable e = choices (eqb (latch (addr % 64)) 0x15) (λ t. same (reached addr 0x15 refl t)) (λ t. e)

  pub written_compare : g.compare ≡ k.compare → (written g addr v).compare ≡ (written k addr w).compare
  unfolding written
  written_compare e = choices (eqb (latch (addr % 64)) 0x12) (λ t. let q : v ≡ w = same (reached addr 0x12 refl t) in cc) (λ t. e)

-- no write of this kind changes these
module _ (g : Registers) (addr v : ℕ) where
  pub written_ctrl1 : (written g addr v).ctrl1 ≡ g.ctrl1
  unfolding written
  written_ctrl1 = refl

  pub written_ctrl2 : (written g addr v).ctrl2 ≡ g.ctrl2
  unfolding written
  written_ctrl2 = refl

  pub written_yexp : (written g addr v).yexp ≡ g.yexp
  unfolding written
  written_yexp = refl

-- the interrupt takes two of the writes
pub irq_written_lem : (i : Irq) (addr v w : ℕ) → (takes (addr % 64) ≡ true → v ≡ w) → irq_written i addr v ≡ irq_written i addr w
unfolding irq_written
irq_written_lem i addr v w same =
    choices (eqb (addr % 64) 0x19) (λ t. ap (cleared i) (same (rw (eqb-true (addr % 64) 0x19 t))))
    (λ f. choices (eqb (addr % 64) 0x1A) (λ t. ap (enabled i) (same (rw (eqb-true (addr % 64) 0x1A t)))) (λ u. refl))

-- the reads that show a picture register, or share a byte with one: the colours, the eight X, and the rest one by one
abbrev pub shows : ℕ → Bool
shows reg =
    between 0x20 0x2E reg
    || (ltb reg 0x10 && eqb (reg % 2) 0)
    || one_of reg (0x10 ∷ 0x11 ∷ 0x16 ∷ 0x18 ∷ 0x1B ∷ 0x1C ∷ 0x1D ∷ [])

-- any other shows the same of two files with the same Y, enable and Y-expand
module _ (g k : Registers) (i : Irq) (raster addr penx peny : ℕ) (other : shows (addr % 64) ≡ false)
    (my : g.my ≡ k.my) (enable : g.enable ≡ k.enable) (yexp : g.yexp ≡ k.yexp) where
  never : {A : Type 0} → shows (addr % 64) ≡ true → A
  never t = absurd (false≢true (sym other ∙ t))

  not_here : {x y : ℕ} (n : ℕ) → shows n ≡ true → eqb (addr % 64) n ≡ true → x ≡ y
  not_here n e t = never (rw (eqb-true (addr % 64) n t) e)

  control_read : control_at g i raster penx peny (addr % 64) ≡ control_at k i raster penx peny (addr % 64)
  unfolding control_at
  control_read =
      let reg = addr % 64 in
      choices (eqb reg 0x10) (not_here 0x10 refl)
      (λ f. choices (eqb reg 0x11) (not_here 0x11 refl)
      (λ f. choices (eqb reg 0x12) (λ t. refl)
      (λ f. choices (eqb reg 0x13) (λ t. refl)
      (λ f. choices (eqb reg 0x14) (λ t. refl)
      (λ f. choices (eqb reg 0x15) (λ t. enable)
      (λ f. choices (eqb reg 0x16) (not_here 0x16 refl)
      (λ f. choices (eqb reg 0x17) (λ t. yexp)
      (λ f. choices (eqb reg 0x18) (not_here 0x18 refl)
      (λ f. choices (eqb reg 0x19) (λ t. refl)
      (λ f. choices (eqb reg 0x1A) (λ t. refl)
      (λ f. choices (eqb reg 0x1B) (not_here 0x1B refl)
      (λ f. choices (eqb reg 0x1C) (not_here 0x1C refl)
      (λ f. choices (eqb reg 0x1D) (not_here 0x1D refl) (λ f. refl))))))))))))))

  -- 0x20 to 0x2E
  coloured : {x y : ℕ} → ltb (addr % 64) 0x20 ≡ false → addr % 64 < 0x2F → x ≡ y
  coloured low high =
      never (rw (le-leb 0x20 (addr % 64) (ltb-false (addr % 64) 0x20 low), le-leb (addr % 64) 0x2E (omega arith)))

  pub read_alike : read_of g i raster addr penx peny ≡ read_of k i raster addr penx peny
  unfolding read_of
  read_alike =
      let reg = addr % 64 in
      choices (ltb reg 0x10)
      (λ t. choices (eqb (reg % 2) 0)
      (λ u. never (rw (lt-leb 0x20 reg (omega (arith, ltb-true reg 0x10 t)), t, u)))
      (λ f. cc))
      (λ f. choices (ltb reg 0x20) (λ t. control_read)
      (λ low. choices (ltb reg 0x27) (λ t. coloured low (omega (arith, ltb-true reg 0x27 t)))
      (λ f. choices (ltb reg 0x2F) (λ t. coloured low (ltb-true reg 0x2F t)) (λ f. refl))))

-- two files with the same timing registers, one by one
pub record SameFile (g k : Registers) : Type 0 where
  pub den : DEN g.ctrl1 ≡ DEN k.ctrl1
  pub rsel : RSEL g.ctrl1 ≡ RSEL k.ctrl1
  pub yscroll : YSCROLL g.ctrl1 ≡ YSCROLL k.ctrl1
  pub csel : CSEL g.ctrl2 ≡ CSEL k.ctrl2
  pub compare : g.compare ≡ k.compare
  pub my : g.my ≡ k.my
  pub enable : g.enable ≡ k.enable
  pub yexp : g.yexp ≡ k.yexp

pub by_one : (g k : Registers) → timed g ≡ timed k → SameFile g k
unfolding timed
by_one g k e =
    record {
      den = ap (λ (t : Controls). t.den) e;
      rsel = ap (λ (t : Controls). t.rsel) e;
      yscroll = ap (λ (t : Controls). t.yscroll) e;
      csel = ap (λ (t : Controls). t.csel) e;
      compare = ap (λ (t : Controls). t.compare) e;
      my = ap (λ (t : Controls). t.my) e;
      enable = ap (λ (t : Controls). t.enable) e;
      yexp = ap (λ (t : Controls). t.yexp) e;
    }

pub as_one : (g k : Registers) → SameFile g k → timed g ≡ timed k
unfolding timed
as_one g k s = simp (s.den, s.rsel, s.yscroll, s.csel, s.compare, s.my, s.enable, s.yexp)
