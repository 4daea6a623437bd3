-- The rule of a turn table, over plain data: its word, the value while it is at home in the slot, and the notes of all seats.
use Rattle.std.specs.Prelude.{◌≡◌, ℕ, ◌+◌, ◌*◌, ◌<◌, ◌≤◌, ◌==◌, List, [], ◌∷◌, ◌++◌, length, slice_index, Bool, true, false}
use Rattle.std.specs.List.{enumerate_from}
use mathlib.Core.Option.{some}
use lib.ListN.{get_elem?}
use Rattle.atomic_table.specs.Table.{State}
use Rattle.turn_table.specs.declared.note.Note.{Note}
use Rattle.turn_table.specs.Notes.{IsPrefix}

-- f, added up over a list
abbrev pub total : {A : Type 0} → (A → ℕ) → List A → ℕ
total f [] = 0
total f (x ∷ xs) = f x + total f xs

-- f, added up over all notes of all views
abbrev pub total_of_views : {A : Type 0} → (A → ℕ) → List (List A) → ℕ
total_of_views f views = total (total f) views

-- 1 where it is so, and else 0
abbrev pub bit : Bool → ℕ
bit true = 1
bit false = 0

-- how many of the entries name a seat
abbrev pub entries_naming : (ℕ → ℕ) → ℕ → List ℕ → ℕ
entries_naming names number made = total (λ entry. bit (names entry == number)) made

-- how many pairs of an own list have an entry that names a seat
abbrev pub pairs_naming : (ℕ → ℕ) → ℕ → List (ℕ × ℕ) → ℕ
pairs_naming names number own = total (λ pair. bit (names pair.1 == number)) own

-- more than 0 where a seat was refused, or saw that some seat was served
abbrev pub signs_of_use : Note → ℕ
signs_of_use note = bit note.refused + note.seen

-- what a note says is so
pub record IsRight (names : ℕ → ℕ) (opening : List ℕ) (seats : ℕ) (made : List ℕ) (note : Note) : Type 0 where
  -- it knows the opening entries and the number of seats
  pub opening_is : note.opening ≡ opening
  pub seats_is : note.seats ≡ seats
  -- its number is one of a seat
  pub number : note.number < seats
  -- its trail is a prefix of the entries made
  pub trail : IsPrefix note.trail made
  -- and all of them while its seat has the turn
  pub holder : note.has_turn ≡ true → note.trail ≡ made
  -- its own list has at most one pair
  pub one_own : length note.own ≤ 1
  -- whose entry names its seat
  pub own_named : (number : ℕ) → pairs_naming names number note.own ≤ bit (note.number == number)

-- and so of each note of a view
abbrev pub AreRight : (ℕ → ℕ) → List ℕ → ℕ → List ℕ → List Note → Type 0
AreRight names opening seats made [] = Unit {0}
AreRight names opening seats made (note ∷ notes) = IsRight names opening seats made note × AreRight names opening seats made notes

-- What holds between any two steps of all seats. Positions count from 0 the entries made since the table was.
pub record TurnRule {V : Type 0} (entries : V → List ℕ) (names : ℕ → ℕ) (opening : List ℕ) (seats : ℕ) (state : State V (List Note)) : Type 0 where
  -- the entries made since the table was, in order
  pub made : List ℕ
  -- 1 while a seat has the turn, and else 0
  pub held : ℕ
  -- the value that lies in the slot while no seat has the turn
  pub value : V
  -- there is one word
  pub one_word : length state.words ≡ 1
  -- the word is twice the number of entries made, and one more while a seat has the turn
  pub word : slice_index state.words 0 ≡ 2 * length made + held
  -- while no seat has the turn the value is at home, and its entries are the opening ones and then those made
  pub home : held ≡ 0 → (get_elem? state.homes 0 ≡ some (some value)) × (entries value ≡ opening ++ made)
  -- as many seats note that they have the turn
  pub holders : total_of_views (λ note. bit note.has_turn) state.views ≡ held
  -- so no two seats have it
  pub one_holder : held ≤ 1
  -- each seat's number stands in one note
  pub one_note_each : (number : ℕ) → total_of_views (λ note. bit (note.number == number)) state.views ≤ 1
  -- and there are as many notes as seats
  pub all_notes : total_of_views (λ _. 1) state.views ≡ seats
  -- the own lists have each entry made with its position, each once, and nothing else: any weights of pairs add up to the same
  pub pairs : (weight : ℕ × ℕ → ℕ) → total_of_views (λ note. total weight note.own) state.views ≡ total weight (enumerate_from 0 made)
  -- what each note says is so
  pub notes : (place : ℕ) (view : List Note) → get_elem? state.views place ≡ some view → AreRight names opening seats made view
  -- once the word or a number seen is not 0, or a seat is refused, some seat is served
  pub served : 0 < slice_index state.words 0 + total_of_views signs_of_use state.views → 0 < total_of_views (λ note. bit note.served) state.views
