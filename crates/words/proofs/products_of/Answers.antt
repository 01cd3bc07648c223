-- `products_of` meets its contract: from the last row down, the word is the products with the rows passed.
use Rattle.std.proofs.Common.{◌≡◌, ◌+◌, ◌*◌, ◌^◌, ◌<◌, ◌∷◌, [], ◌++◌, sym, arith}
use Rattle.std.proofs.lemmas.List.{append-nil}
use Rattle.paper.specs.Words.{width, product, products}
use Rattle.words.proofs.Products.{products-nil, products-joined}
use Rattle.words.proofs.products_of.Goals as goal

pub loop-row-init : goal.loop-row-init
loop-row-init c =
    let rest = c.into_iter-row-iterator.result.iter.rest.now in
    let e = append-nil rest in
    ([], cc, sym (products-nil c.args.x))

-- the next word is the products with one row more, which fit
turn : (c : goal.After-product_of) → let p = c.loop-row.invariant.0 in
    let row = c.in-Some.row.now in
    (c.args.rows.now ≡ c.next.new.self.iter.rest.now ++ row ∷ p)
    × (product row c.args.x + 2 * products p c.args.x < 2 ^ width)
turn c = products-joined _ _ _ _ _ _ width (omega arith) c.loop-row.invariant.1 c.in-Some.ensures.steps

pub overflow_mul-word : goal.overflow_mul-word
overflow_mul-word c = omega (arith, c.loop-row.invariant.2, turn c)

pub overflow_add-word : goal.overflow_add-word
overflow_add-word c = omega (arith, c.product_of.ensures, c.loop-row.invariant.2, turn c)

pub loop-row-preserved : goal.loop-row-preserved
unfolding products
loop-row-preserved c = (c.in-Some.row.now ∷ c.loop-row.invariant.0, (turn c).0, omega (arith, c.product_of.ensures, c.loop-row.invariant.2))
