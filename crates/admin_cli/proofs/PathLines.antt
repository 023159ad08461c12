-- Lines of paths, one after the other.
use Rattle.admin_cli.proofs.Common.{List, ap, codes, drop, drop_more, get_or, length, path_lines, ℕ, ◌++◌, ◌+◌, ◌<◌, ◌≡◌}

-- the lines of those from a path on
pub lines_more : (paths : List (List ℕ)) (i : ℕ) (d : List ℕ) → i < length paths → path_lines (drop i paths) ≡ get_or paths i d ++ codes "\n" ++ path_lines (drop (i + 1) paths)
lines_more paths i d below = ap path_lines (drop_more paths i d below)
