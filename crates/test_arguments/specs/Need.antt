-- What a call is refused for that needs new records, ids and stamps of a store. Assumes nothing.
use Rattle.std.specs.Prelude.{ℕ, ◌+◌, ◌||◌, ltb}
use Rattle.model.specs.Words.{pick}
use Rattle.model.specs.Sizes.{store_records, max_stamp}

-- 8, 11 or none, 0: for n records and `need` more, the stamp `top` and `stamps` more, the next id and `need` more
abbrev pub need_number : ℕ → ℕ → ℕ → ℕ → ℕ → ℕ
need_number n need top stamps next =
    pick (ltb store_records (n + need)) 8 (pick (ltb max_stamp (top + stamps) || ltb max_stamp (next + need)) 11 0)
