-- Bytes that go out or come in one part after another.
use Rattle.std.proofs.Common.{◌≡◌, ℕ, List, [], ◌++◌, Option, Some, None, option_map, take, drop, ◌+◌, refl, sym, ◌∙◌, ap, append_assoc}
use Rattle.std.proofs.lemmas.List.{append-nil, take-append-drop, drop-drop}
use Rattle.outside_io.specs.Streams.{Appends}

-- nothing is appended
pub Appends-nothing : (held : Option (List ℕ)) → Appends held held []
Appends-nothing None = refl
Appends-nothing (Some bytes) = ap (λ (b : List ℕ). Some b) (sym (append-nil bytes))

-- one part after another
pub Appends-then : (old held new : Option (List ℕ)) (first second : List ℕ) → Appends old held first → Appends held new second → Appends old new (first ++ second)
Appends-then None held new first second a b = b ∙ ap (λ (h : Option (List ℕ)). option_map (λ bytes. bytes ++ second) h) a
Appends-then (Some bytes) held new first second a b = b ∙ ap (λ (h : Option (List ℕ)). option_map (λ bytes. bytes ++ second) h) a ∙ ap (λ (x : List ℕ). Some x) (append_assoc bytes first second)

-- one part taken after another
pub taken_then : (old left new : Option (List ℕ)) (first second : List ℕ) → old ≡ option_map (λ rest. first ++ rest) left → left ≡ option_map (λ rest. second ++ rest) new
    → old ≡ option_map (λ rest. (first ++ second) ++ rest) new
taken_then old left None first second a b = a ∙ ap (λ (l : Option (List ℕ)). option_map (λ rest. first ++ rest) l) b
taken_then old left (Some rest) first second a b = a ∙ ap (λ (l : Option (List ℕ)). option_map (λ rest. first ++ rest) l) b ∙ ap (λ (x : List ℕ). Some x) (sym (append_assoc first second rest))

-- a text whose prefix is before, with the next bytes of the rest after it
pub split_further : (whole before rest : List ℕ) (n : ℕ) → whole ≡ before ++ rest → whole ≡ (before ++ take n rest) ++ drop n rest
split_further whole before rest n e = e ∙ ap (λ (r : List ℕ). before ++ r) (sym (take-append-drop n rest)) ∙ sym (append_assoc before (take n rest) (drop n rest))

-- the bytes that are left, when the next n of them have come
pub split_taken : (bytes : List ℕ) (taken n : ℕ) (came : List ℕ) → came ≡ take n (drop taken bytes) → Some (drop taken bytes) ≡ Some (came ++ drop (taken + n) bytes)
split_taken bytes taken n came e = rw (e, ← drop-drop n taken bytes) (ap (λ (b : List ℕ). Some b) (sym (take-append-drop n (drop taken bytes))))
