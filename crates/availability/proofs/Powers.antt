-- Two bits are one digit to the base 4.
use Rattle.std.proofs.Common.{◌≡◌, ℕ, ◌*◌, ◌^◌, ◌<◌, zero, suc, refl, arith}

pub two_bits : (k : ℕ) → k < 4 → 2 ^ (2 * k) ≡ 4 ^ k
two_bits zero h = refl
two_bits (suc zero) h = refl
two_bits (suc (suc zero)) h = refl
two_bits (suc (suc (suc zero))) h = refl
two_bits (suc (suc (suc (suc k)))) h = absurd (omega arith)
