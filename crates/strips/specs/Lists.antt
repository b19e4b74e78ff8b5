-- What a list of facts means, and when a fact may join it. Assumes nothing.
--
--   listed   the facts of a list, in order
--   Pushed   what putting a fact at the end answers and leaves
--   Taken    what making a list of facts answers
--   number   a refusal's number
use Rattle.std.specs.Prelude.{◌≡◌, ℕ, ◌-◌, ◌<◌, ◌≤◌, List, [], ◌∷◌, ◌++◌, length, take, Ok, Err, Result, slice_index}
use Rattle.model.specs.Strips.{Rising}
use Rattle.strips.specs.declared.fault.ListFault.{ListFault}
use Rattle.strips.specs.declared.fault.ListFault.TheVariants.{Full, NotRising}
use Rattle.strips.specs.declared.list.FactList.{FactList}

abbrev pub listed : {n : ℕ} → FactList n → List ℕ
listed l = take l.count l.facts

-- 5: a number out of bounds; 6: a list that does not rise
abbrev pub number : ListFault → ℕ
number Full = 5
number NotRising = 6

-- the fact is above the last of the list
abbrev pub Above : List ℕ → ℕ → Type 0
Above l f = 0 < length l → slice_index l (length l - 1) < f

-- accepted where there is room and the fact is above the last; a refusal leaves the list
abbrev pub Pushed : ℕ → List ℕ → ℕ → List ℕ → Result (Unit {0}) ListFault → Type 0
Pushed n before fact after (Ok _) = (length before < n) × Above before fact × (after ≡ before ++ fact ∷ [])
Pushed n before fact after (Err Full) = (n ≤ length before) × (after ≡ before)
Pushed n before fact after (Err NotRising) = (length before < n) × (Above before fact → ⊥) × (after ≡ before)

-- a list of just these facts, of which there are at most n, rising; or the fault of the first that could not join
abbrev pub Taken : {n : ℕ} → List ℕ → Result (FactList n) ListFault → Type 0
Taken {n} facts (Ok list) = (length facts ≤ n) × Rising facts × (listed list ≡ facts)
Taken {n} facts (Err Full) = (n < length facts) × Rising (take n facts)
Taken {n} facts (Err NotRising) = Rising (take n facts) → ⊥
