-- The laws at every level of the tower. Assumes nothing.
use mathlib.Core.Path.{◌≡◌, refl}
use mathlib.Core.Bool.{Bool, true, false, true≢false, false≢true}
use mathlib.Core.Logic.{◌⊎◌, inl, inr, ◌≢◌}
use Prim.Native.Nat.{ℕ, zero, suc}
use Rattle.nimber_field.specs.Tower.{bits, differ, Tower, ops}
use Rattle.nimber_field.proofs.Ring.{Ring}
use Rattle.nimber_field.proofs.Laws.{Tools, Laws, Factors}
use Rattle.nimber_field.proofs.Pairs.{pair_tools, pair_laws}

-- below true is false alone
abbrev pub BitLower : Bool → Bool → Type 0
BitLower true true = Unit {0}
BitLower true false = ⊥
BitLower false d = ⊥

abbrev pub bit_tools : Tools Bool
bit_tools = record { top = λ x. x; root = λ x. x; solve = λ x. x; Lower = BitLower }

bit_ring : Ring Bool bits
bit_ring = record {
  add_assoc = elim [ true ↦ elim [ true ↦ elim [ true ↦ refl | false ↦ refl ] | false ↦ λ z. refl ] | false ↦ λ y z. refl ];
  add_comm = elim [ true ↦ elim [ true ↦ refl | false ↦ refl ] | false ↦ elim [ true ↦ refl | false ↦ refl ] ];
  add_nil = elim [ true ↦ refl | false ↦ refl ];
  add_self = elim [ true ↦ refl | false ↦ refl ];
  mul_assoc = elim [ true ↦ λ y z. refl | false ↦ λ y z. refl ];
  mul_comm = elim [ true ↦ elim [ true ↦ refl | false ↦ refl ] | false ↦ elim [ true ↦ refl | false ↦ refl ] ];
  mul_one = elim [ true ↦ refl | false ↦ refl ];
  mul_nil = elim [ true ↦ refl | false ↦ refl ];
  distrib = elim [ true ↦ λ y z. refl | false ↦ λ y z. refl ];
}

bit_inverse : (x : Bool) → x ≢ false → bits.mul x x ≡ true
bit_inverse true n = refl
bit_inverse false n = absurd (n refl)

bit_solves : (c : Bool) → c ≡ false → differ (bits.mul c c) c ≡ c
bit_solves true e = absurd (true≢false e)
bit_solves false e = refl

bit_lower_add : (p q d : Bool) → BitLower (differ p q) d → BitLower p d ⊎ BitLower q d
bit_lower_add true true d h = absurd h
bit_lower_add true false true h = inl h
bit_lower_add true false false h = absurd h
bit_lower_add false true d h = inr h
bit_lower_add false false d h = absurd h

bit_lower_not_nil : (p d : Bool) → BitLower p d → d ≢ false
bit_lower_not_nil true true h = true≢false
bit_lower_not_nil true false h = absurd h
bit_lower_not_nil false d h = absurd h

bit_factors : (a b d : Bool) → BitLower (bits.mul a b) d → Factors Bool bits bit_tools a b d
bit_factors true true true h = record { u = true; v = true; u_lower = tt; v_lower = tt; is = refl }
bit_factors true true false h = absurd h
bit_factors true false d h = absurd h
bit_factors false b d h = absurd h

bit_laws : Laws Bool bits bit_tools
bit_laws = record {
  ring = bit_ring;
  one_not_nil = true≢false;
  nil_or_not = elim [ true ↦ inr true≢false | false ↦ inl refl ];
  inverse = bit_inverse;
  top_add = λ x y. refl;
  top_half = refl;
  top_square = elim [ true ↦ refl | false ↦ refl ];
  solves = bit_solves;
  roots = elim [ true ↦ refl | false ↦ refl ];
  lower_not_nil = bit_lower_not_nil;
  nil_not_lower = λ d h. h;
  lower_add = bit_lower_add;
  lower_half = elim [ true ↦ λ h. refl | false ↦ λ h. absurd h ];
  half_lower = elim [ true ↦ λ e. tt | false ↦ λ e. false≢true e ];
  factors = bit_factors;
}

unfoldable pub tools : (k : ℕ) → Tools (Tower k)
tools zero = bit_tools
tools (suc k) = pair_tools (Tower k) (ops k) (tools k)

pub laws : (k : ℕ) → Laws (Tower k) (ops k) (tools k)
unfolding ops tools
laws zero = bit_laws
laws (suc k) = pair_laws (Tower k) (ops k) (tools k) (laws k)
