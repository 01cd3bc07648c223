-- Lines and their answers, computed: what the definitions say of an example is what is written down.
-- They show a verb's labels, a refusal with its place, a page or rooms behind an answer, and numbers that their places do not hold.
use mathlib.Core.Path.{◌≡◌, refl}
use lib.Count.{ones}
use Rattle.paper.specs.Words.{products, sum}
use Rattle.paper.specs.Listing.{listed, weights, search}
use Rattle.paper.specs.Sheet.{judged}
use Rattle.paper.specs.Writing.{writes}
use Rattle.paper.specs.First.{first}
use Rattle.paper.specs.Plate.{search_d1, measures_admitted_d1, measures_d1}
use Rattle.paper.specs.Page.{opens, first_broken, paged, slot_writes, page_writes, page_reads}
use Rattle.paper.specs.WholePage.{whole_writes, page_through, notes_through}
use Rattle.paper.specs.Tables.{each, column, built, builds_sized, builds, gives_admitted, gives}
use Rattle.text.specs.Bytes.{bytes}
use Rattle.text.specs.Tokens.{cut, up_to}
use Rattle.text.specs.Numerals.{numeral, valued}
use Rattle.text.specs.Puts.{digits_of}
use Rattle.lines.specs.Lines.{asked, comes, spelled, lookup}
use Rattle.lines.specs.Shapes.{fill}
use Rattle.answers.specs.Answers.{labelled, spaced}
use Rattle.rooms.specs.Lent.{records_from}
use Rattle.verbs.specs.Replies.{table, reply}

word : reply (asked table (bytes "write 3 1 2 4 1 3 5 7 1 6 2")) ≡ bytes "word 2 d 1\n"
unfolding cut asked comes spelled lookup fill numeral valued judged writes labelled up_to digits_of ones sum
word = refl

place : reply (asked table (bytes "write 3 1 2 4 1 3 5 7 1 1 2")) ≡ bytes "refused 8 1\n"
unfolding cut asked comes spelled lookup fill numeral valued judged writes labelled up_to digits_of ones sum
place = refl

page : reply (asked table (bytes "pwrite 3 1 2 4 1 3 5 7 9 2 0 7 1 0 1 1 0 1")) ≡ bytes "word 2 d 1 page 2 2 7\n"
unfolding cut asked comes spelled lookup fill numeral valued judged paged page_writes slot_writes first_broken first records_from labelled spaced up_to digits_of ones sum
page = refl

whole : reply (asked table (bytes "wpage 3 1 2 4 1 3 5 7 9 2 0 7 1 0 1 1 2 1 2 2 9")) ≡ bytes "done page 2 2 7 notes 2 0 7\n"
unfolding cut asked comes spelled lookup fill numeral valued judged paged page_writes slot_writes first_broken first whole_writes page_through notes_through records_from labelled spaced up_to digits_of ones sum
whole = refl

-- a page's number, and one that is none
plate : reply (asked table (bytes "open 3 1 2 4 1 3 5 7")) ≡ bytes "number 1\n"
unfolding cut asked comes spelled lookup fill numeral valued judged opens measures_d1 measures_admitted_d1 search_d1 weights listed search products labelled up_to digits_of ones sum
plate = refl

plateless : reply (asked table (bytes "pread 3 1 2 4 1 3 5 7 10 2 0 7 0 0")) ≡ bytes "refused 16\n"
unfolding cut asked comes spelled lookup fill numeral valued judged paged page_reads labelled up_to digits_of ones sum
plateless = refl

room : reply (asked table (bytes "tosheet 3 1 2 1 0 2 1 1 2 0 0 4 9")) ≡ bytes "done room 4 1 3 5 7\n"
unfolding cut asked comes spelled lookup fill numeral valued builds builds_sized built each column first labelled spaced up_to digits_of ones sum
room = refl

rooms : reply (asked table (bytes "totables 3 1 2 4 1 5 3 7 1 9 2 9 2 9")) ≡ bytes "refused 24 P 1 9 R 2 9 9 Q 2 9 9\n"
unfolding cut asked comes spelled lookup fill numeral valued judged gives gives_admitted each first labelled spaced up_to digits_of ones sum
rooms = refl

large : reply (asked table (bytes "tosheet 1 1 0 1 0 0 0 4097 0")) ≡ bytes "unknown\n"
unfolding cut asked comes spelled lookup fill numeral valued
large = refl

-- a word of 64 bits, one that is too large, and a number that is no word
wide : reply (asked table (bytes "write 3 1 2 4 1 3 5 7 1 9223372036854775808 0")) ≡ bytes "refused 8 63\n"
unfolding cut asked comes spelled lookup fill numeral valued judged writes first labelled up_to digits_of ones sum
wide = refl

over : reply (asked table (bytes "write 3 1 2 4 1 3 5 7 1 18446744073709551616 0")) ≡ bytes "unknown\n"
unfolding cut asked comes spelled lookup fill numeral valued
over = refl

number : reply (asked table (bytes "admit 4294967296 1 0 0")) ≡ bytes "unknown\n"
unfolding cut asked comes spelled lookup fill numeral valued
number = refl
