-- The table that a tree's text stands for.
use Rattle.std.specs.Prelude.{ℕ, suc, ◌+◌, ◌*◌, List, ltb, set, replicate}
use Rattle.taxa.specs.Sets.{pick}
use Rattle.tree.specs.Tree.{rows}
use Rattle.newick_grammar.specs.Newick.{Member, taxon, group, Outermost, two, three}

-- How many groups a member has, itself among them.
unfoldable pub groups : Member → ℕ
groups (taxon d) = 0
groups (group l r) = suc (groups l + groups r)

-- The node of a member, k being the number of the first group to close: inner
-- nodes are numbered in the order of their closing parentheses, so a group
-- comes after all that are in it.
unfoldable pub node : Member → ℕ → ℕ
node (taxon d) k = d
node (group l r) k = k + (groups l + groups r)

-- Row v joins node v to p.
abbrev pub join : ℕ → ℕ → List ℕ → List ℕ
join v p t = set (set t (2 * v) v) (2 * v + 1) p

-- The table t with the rows of a member: row v joins node v to its parent, for
-- every node v inside it.
unfoldable pub with_rows : Member → ℕ → List ℕ → List ℕ
with_rows (taxon d) k t = t
with_rows (group l r) k t =
    let j = k + groups l in
    let p = j + groups r in
    join (node r j) p (join (node l k) p (with_rows r j (with_rows l k t)))

-- The smaller and the larger of two numbers.
abbrev pub smaller : ℕ → ℕ → ℕ
smaller x y = pick (ltb x y) x y

abbrev pub larger : ℕ → ℕ → ℕ
larger x y = pick (ltb x y) y x

-- The table of n taxa before its rows are written.
abbrev pub blank : ℕ → List ℕ
blank n = replicate (2 * rows n) 0

-- The table of a tree. Inner nodes are numbered from n. With three outermost
-- members, the outermost group is a node too. With two it is none: its members
-- are joined by one row, which takes the smaller of their numbers.
unfoldable pub table : ℕ → Outermost → List ℕ
table n (two a b) =
    let j = n + groups a in
    let x = node a n in
    let y = node b j in
    join (smaller x y) (larger x y) (with_rows b j (with_rows a n (blank n)))
table n (three a b c) =
    let j = n + groups a in
    let k = j + groups b in
    let p = k + groups c in
    let t = with_rows c k (with_rows b j (with_rows a n (blank n))) in
    join (node c k) p (join (node b j) p (join (node a n) p t))
