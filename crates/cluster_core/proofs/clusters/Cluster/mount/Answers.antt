-- The cluster is put together of what the mount of the tree found.
use Rattle.cluster_core.proofs.Common.{Inboxes, IsOwned, List, Pin, Standing, [], ap, ap₂, contents, core_of, dentry_cmp, none_stand, replicate, subst, ◌∙◌}
use Rattle.sessions.specs.Table.{no_table}
use Rattle.cluster_core.proofs.MountedBook.{mounted_limit, mounted_sound, mounts_core}
use Rattle.cluster_core.proofs.clusters.Cluster.mount.Goals as goal

pub returns-in-Ok-mount-clause-mounted : goal.returns-in-Ok-mount-clause-mounted
returns-in-Ok-mount-clause-mounted g c =
    let m = c.in-Ok-mount in
    let is = c.of_mounted.ensures.core ∙ ap₂ (λ (i : Inboxes) (p : List Pin). core_of m.tree.tree m.tree.subtrees.roots m.tree.exports m.opening.numbers.items i p no_table) c.in-Ok.ensures.inboxes c.in-Ok.ensures.pins ∙ ap (λ (e : Standing). core_of m.tree.tree m.tree.subtrees.roots e m.opening.numbers.items (replicate c.args.ranks []) [] no_table) m.ensures.exports in
    rw (is, c.of_mounted.ensures.opening) (mounts_core c.args.limit _ c.args.ranks c.args.places m.tree.tree m.tree.subtrees.roots (contents dentry_cmp m.opening.entries) m.opening.numbers.items m.ensures.mounted m.ensures.opening m.ensures.numbers m.ensures.roots)

pub returns-in-Ok-mount-clause-limit : goal.returns-in-Ok-mount-clause-limit
returns-in-Ok-mount-clause-limit g c =
    let m = c.in-Ok-mount in
    rw c.of_mounted.ensures.core (mounted_limit c.args.limit _ c.args.ranks c.args.places m.tree.tree m.tree.subtrees.roots (contents dentry_cmp m.opening.entries) m.opening.numbers.items m.ensures.mounted m.ensures.opening m.ensures.numbers m.ensures.roots)

pub returns-in-Ok-mount-clause-sound : goal.returns-in-Ok-mount-clause-sound
returns-in-Ok-mount-clause-sound g c =
    let m = c.in-Ok-mount in
    let is = c.of_mounted.ensures.core ∙ ap₂ (λ (i : Inboxes) (p : List Pin). core_of m.tree.tree m.tree.subtrees.roots m.tree.exports m.opening.numbers.items i p no_table) c.in-Ok.ensures.inboxes c.in-Ok.ensures.pins ∙ ap (λ (e : Standing). core_of m.tree.tree m.tree.subtrees.roots e m.opening.numbers.items (replicate c.args.ranks []) [] no_table) m.ensures.exports in
    rw (is, c.of_mounted.ensures.opening) (mounted_sound c.args.limit _ c.args.ranks c.args.places m.tree.tree m.tree.subtrees.roots (contents dentry_cmp m.opening.entries) m.opening.numbers.items m.ensures.mounted m.ensures.opening m.ensures.numbers m.ensures.roots c.requires.some c.requires.ranked (subst (IsOwned m.tree.tree) (none_stand m.tree.exports m.tree.subtrees.roots m.ensures.exports) c.of_mounted.ensures.owned) c.of_mounted.ensures.caches)
