pub mod BitVecs
