-- Messages end to end from the front of an area; their index, four octets each, from its end down.
use Rattle.std.specs.Prelude.{◌≡◌, ℕ, zero, suc, ◌+◌, ◌-◌, ◌*◌, ◌/◌, ◌<◌, true, List, [], ◌∷◌, ◌++◌, map, length, take, drop}
use Rattle.std.specs.List.{range_with_len}
use Rattle.line.specs.Meaning.{fits}
use Rattle.octets.specs.Over.{over}
use Rattle.line.specs.Written.{two, two_octets}

-- where entry k of the index begins, in an area of total octets
abbrev pub entry_start : ℕ → ℕ → ℕ
entry_start total k = total - 4 * (k + 1)

-- an entry: the offset and the length of a message
abbrev pub entry_octets : ℕ → ℕ → List ℕ
entry_octets off len = two_octets off ++ two_octets len

abbrev pub offset_of : List ℕ → ℕ → ℕ → ℕ
offset_of xs total k = two xs (entry_start total k)

abbrev pub length_of : List ℕ → ℕ → ℕ → ℕ
length_of xs total k = two xs (entry_start total k + 2)

-- the message that entry k tells of
abbrev pub message_of : List ℕ → ℕ → ℕ → List ℕ
message_of xs total k = take (length_of xs total k) (drop (offset_of xs total k) xs)

-- the messages of the first count entries
unfoldable pub messages : List ℕ → ℕ → ℕ → List (List ℕ)
messages xs total count = map (λ k. message_of xs total k) (range_with_len 0 count)

-- the octets of the first messages together
unfoldable pub octets_of : List ℕ → ℕ → ℕ → ℕ
octets_of xs total zero = 0
octets_of xs total (suc k) = octets_of xs total k + length_of xs total k

-- each message stands right behind those before it
abbrev pub Placed : List ℕ → ℕ → ℕ → Type 0
Placed xs total count = (k : ℕ) → k < count → offset_of xs total k ≡ octets_of xs total k

-- and has a length that a message may have
abbrev pub Held : List ℕ → ℕ → ℕ → Type 0
Held xs total count = (k : ℕ) → k < count → fits (length_of xs total k) ≡ true

-- the octets that messages use: each its length and four
abbrev pub uses : List (List ℕ) → ℕ
uses [] = 0
uses (m ∷ ms) = length m + 4 + uses ms

-- the places beside so many used octets: one for each 276, the longest message and its entry
abbrev pub places_beside : ℕ → ℕ → ℕ
places_beside total n = (total - n) / 276

-- the area once a message was put: it stands behind the others, its entry below theirs
abbrev pub put_packed : List ℕ → ℕ → ℕ → ℕ → List ℕ → List ℕ
put_packed xs total used count m = over (over xs used m) (entry_start total count) (entry_octets used (length m))

-- the first octets moved to the front, over the n octets of the oldest message
abbrev pub moved : List ℕ → ℕ → ℕ → List ℕ
moved xs n used = over xs 0 (take (used - n) (drop n xs))

-- the first k entries, each as the next one was, its offset lowered by n
unfoldable pub lowered : List ℕ → ℕ → ℕ → ℕ → List ℕ
lowered xs total n zero = xs
lowered xs total n (suc k) = over (lowered xs total n k) (entry_start total k) (entry_octets (offset_of xs total (k + 1) - n) (length_of xs total (k + 1)))

-- the area once the oldest message, of n octets, was taken
abbrev pub take_packed : List ℕ → ℕ → ℕ → ℕ → ℕ → List ℕ
take_packed xs total used count n = lowered (moved xs n used) total n (count - 1)
