-- The entries of ignore lists are in bounds.
use Rattle.std.proofs.Common.{ℕ, ◌<◌, List, [], ◌∷◌, ◌++◌, length, Option, Some, None}
use Rattle.std.specs.List.{AllByRecursion}
use Rattle.std.proofs.lemmas.List.Elements.{All-append, All-from_recursion, recursion_from_All}
use Rattle.oxc_sourcemap_parts.specs.Record.{MapRecord}
use Rattle.oxc_sourcemap_tokens.specs.declared.position.Position.{Position}
use Rattle.oxc_sourcemap_join.specs.Joined.{raised_ignore_list, appended_ignore_lists, added}
use Rattle.oxc_sourcemap_join.specs.Joined.{added_all, AreEntriesInBounds, IsWithinLimits}

before-each : (P : ℕ → Type 0) (xs ys : List ℕ) → AllByRecursion P (xs ++ ys) → AllByRecursion P xs
before-each P [] ys h = tt
before-each P (x ∷ xs) ys h = (h.0, before-each P xs ys h.1)

after-each : (P : ℕ → Type 0) (xs ys : List ℕ) → AllByRecursion P (xs ++ ys) → AllByRecursion P ys
after-each P [] ys h = h
after-each P (x ∷ xs) ys h = after-each P xs ys h.1

pub appended-in-bounds : (a b : Option (List ℕ)) → AreEntriesInBounds a → AreEntriesInBounds b → AreEntriesInBounds (appended_ignore_lists a b)
appended-in-bounds a None h k = h
appended-in-bounds None (Some ys) h k = k
appended-in-bounds (Some xs) (Some ys) h k = All-append (λ id. id < 4294967295) xs ys h k

appended-left : (a b : Option (List ℕ)) → AreEntriesInBounds (appended_ignore_lists a b) → AreEntriesInBounds a
appended-left a None h = h
appended-left None (Some ys) h = tt
appended-left (Some xs) (Some ys) h =
    let P : ℕ → Type 0 = λ id. id < 4294967295 in
    All-from_recursion P xs (before-each P xs ys (recursion_from_All P (xs ++ ys) h))

appended-right : (a b : Option (List ℕ)) → AreEntriesInBounds (appended_ignore_lists a b) → AreEntriesInBounds b
appended-right a None h = tt
appended-right None (Some ys) h = h
appended-right (Some xs) (Some ys) h =
    let P : ℕ → Type 0 = λ id. id < 4294967295 in
    All-from_recursion P ys (after-each P xs ys (recursion_from_All P (xs ++ ys) h))

-- if a join with one more map is within limits, the raised entries of that map's ignore list are in bounds
pub raised-in-bounds : (r m : MapRecord) (offset : Position) → IsWithinLimits (added r m offset) → AreEntriesInBounds (raised_ignore_list (length r.sources) m.ignore_list)
raised-in-bounds r m offset w = appended-right r.ignore_list (raised_ignore_list (length r.sources) m.ignore_list) w.ignore_list

-- the entries of a join are in bounds if they are so after further adds
pub front-in-bounds : (r : MapRecord) (ms : List (MapRecord × Position)) → AreEntriesInBounds (added_all r ms).ignore_list → AreEntriesInBounds r.ignore_list
front-in-bounds r [] h = h
front-in-bounds r (m ∷ ms) h =
    appended-left r.ignore_list (raised_ignore_list (length r.sources) m.0.ignore_list) (front-in-bounds (added r m.0 m.1) ms h)
