use Rattle.ranked_tree.proofs.Common.{List, NamedInode, [], ap₂, gathers_listed, known_is, length, nat_lt, option_copied, shown_tree, state_of, take, ℕ, ◌∙◌, ◌≡◌}
use Rattle.ranked_tree.proofs.listing.list_dir.Goals as goal

pub gather_leaves-requires-clause-known : goal.gather_leaves-requires-clause-known
gather_leaves-requires-clause-known g c = known_is (shown_tree (state_of c.args.tree.now)) c.args.tree.now.homes c.requires.owned.sound.sound.tabled c.args.dir.0 ∙ c.requires.known

pub returns-clause-listed : goal.returns-clause-listed
returns-clause-listed g c =
    let s = state_of c.args.tree.now in
    let most : c.gather_leaves.new.page.most ≡ c.args.max = c.gather_leaves.ensures.most ∙ c.new-page.ensures.most in
    c.into_listing.ensures.rows ∙ (c.in_default.ensures.page [] c.new-page.ensures.page).rows
    ∙ ap₂ (λ (n : ℕ) (rows : List NamedInode). take n rows) most (gathers_listed s c.requires.owned.sound.sound c.args.dir (known_is (shown_tree s) s.homes c.requires.owned.sound.sound.tabled c.args.dir.0 ∙ c.requires.known) (option_copied c.args.after))

pub returns-clause-more : goal.returns-clause-more
returns-clause-more g c =
    let s = state_of c.args.tree.now in
    let most : c.gather_leaves.new.page.most ≡ c.args.max = c.gather_leaves.ensures.most ∙ c.new-page.ensures.most in
    c.into_listing.ensures.more ∙ (c.in_default.ensures.page [] c.new-page.ensures.page).more
    ∙ ap₂ (λ (n : ℕ) (rows : List NamedInode). nat_lt n (length rows)) most (gathers_listed s c.requires.owned.sound.sound c.args.dir (known_is (shown_tree s) s.homes c.requires.owned.sound.sound.tabled c.args.dir.0 ∙ c.requires.known) (option_copied c.args.after))
