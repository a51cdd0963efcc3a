-- Document 01, "Sizes". Assumes nothing.
use Rattle.std.specs.Prelude.{ℕ, ◌+◌, ◌*◌}

-- nodes 0 to 255, 0 is the root
abbrev pub max_nodes : ℕ
max_nodes = 256

-- hash pool: words of 64 bits
abbrev pub max_words : ℕ
max_words = 4096

-- a list's hashes; a path's blocks
abbrev pub max_hashes : ℕ
max_hashes = 1024

abbrev pub max_stores : ℕ
max_stores = 8

-- blocks
abbrev pub max_capacity : ℕ
max_capacity = 1000000

-- each store's part of the pool of ranges, of pin entries, of marks
abbrev pub store_records : ℕ
store_records = 128

abbrev pub store_pins : ℕ
store_pins = 32

abbrev pub store_marks : ℕ
store_marks = 256

-- its part of the small numbers
abbrev pub store_numbers : ℕ
store_numbers = 8

-- the pools, all stores together
abbrev pub max_records : ℕ
max_records = 1024

abbrev pub max_pins : ℕ
max_pins = 256

abbrev pub max_marks : ℕ
max_marks = 2048

-- five numbers of the whole, then the stores'
abbrev pub max_numbers : ℕ
max_numbers = 5 + store_numbers * max_stores

abbrev pub max_pinned : ℕ
max_pinned = 1000000

-- stamps and range ids; the next id too
abbrev pub max_stamp : ℕ
max_stamp = 281474976710655

-- the byte table has 1,025 numbers, none above 2^48
abbrev pub table_length : ℕ
table_length = 1025

abbrev pub max_bytes : ℕ
max_bytes = 281474976710656

abbrev pub max_stalls : ℕ
max_stalls = 281474976710656

-- a version goes from 2^64 - 1 to 0
abbrev pub versions : ℕ
versions = 18446744073709551616

-- spans of a touch, tiers of a lookup
abbrev pub max_spans : ℕ
max_spans = 64

abbrev pub max_tiers : ℕ
max_tiers = 8

-- answer lists
abbrev pub path_places : ℕ
path_places = 255

abbrev pub out_places : ℕ
out_places = 128

abbrev pub tier_places : ℕ
tier_places = 1024
