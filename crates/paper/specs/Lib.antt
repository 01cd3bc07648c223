-- The definitions of document 01, a file for each of its headings, those of the change requests (Page, WholePage, Tables), and the words that the promises use beside them (Promised).
-- What must be believed is all here; no lemma is.
--
-- How to read them: `leb a b`, `ltb a b` and `eqb a b` are the tests a ≤ b, a < b and a = b; `&&`, `||` and `not` join them, and `cond test x y` is
-- x where the test holds, else y. `take m rows` are the first m rows, `drop m rows` the rows after them, `get_or rows i 0` is row i. `[]` is the empty list,
-- `x ∷ xs` is x before xs, `++` puts one list after another, `map f xs` is each element under f. `λ d. ..` is the function of d. `bit_and`, `bit_or` and `bit_xor`
-- act bit by bit, `ones x` counts the ones of x. Numbers are whole numbers: nothing wraps, and `/` rounds down.
pub mod First
pub mod Words
pub mod Listing
pub mod Refusals
pub mod Sheet
pub mod Writing
pub mod Reading
pub mod Plate
pub mod Page
pub mod WholePage
pub mod Tables
pub mod Promised
