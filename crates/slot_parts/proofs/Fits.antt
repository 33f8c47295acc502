-- What is decided fits the slots.
use Rattle.std.proofs.Common.{◌≡◌, ℕ, ◌+◌, ◌*◌, ◌≤◌, Bool, true, false, ◌&&◌, Some, None, Option, eqb, leb, refl, add-mul, arith}
use Rattle.std.proofs.lemmas.Bool.{cond_both, and_parts, leb-true}
use Rattle.slot_parts.specs.declared.deciding.OpenSlot.{OpenSlot}
use Rattle.slot_parts.specs.Deciding.{Within, Below, Fit, Starts, decided, first_load}

first_starts : (r k : ℕ) → k ≤ 255 → Starts (first_load r k) k
first_starts r k h =
    let e : (r + 1) * k ≡ r * k + 1 * k = add-mul r 1 k in
    record { covers = refl; short = omega arith; stretch = omega arith }

pub decided_fits : (f : Option OpenSlot) (b : Bool) (r k n : ℕ) → k ≤ 255 → Within f → Below f n → Fit (decided f b r k) k n
decided_fits None true r k n h w l = cond_both (eqb r 0) _ _ (λ s. Fit s k n) (λ _. tt) (λ _. first_starts r k h)
decided_fits (Some o) true r k n h w l = cond_both (eqb r 0) _ _ (λ s. Fit s k n) (λ _. tt) (λ _. (l, first_starts r k h))
decided_fits None false r k n h w l = tt
decided_fits (Some o) false r k n h w l =
    cond_both (eqb (r + 1) o.load.remaining && leb (o.load.len + k) o.load.limit) _ _ (λ s. Fit s k n)
    (λ e.
    let sum : o.load.len + k ≤ o.load.limit = leb-true (o.load.len + k) o.load.limit (and_parts (eqb (r + 1) o.load.remaining) (leb (o.load.len + k) o.load.limit) e).1 in
    cond_both (eqb r 0) _ _ (λ s. Fit s k n)
    (λ _. record { below = l; covers = omega arith; short = sum; stretch = w.1 })
    (λ _. record { below = l; covers = omega arith; short = sum; stretch = w.1 }))
    (λ _. l)
